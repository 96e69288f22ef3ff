pub mod SizeLaws
pub mod Exact
