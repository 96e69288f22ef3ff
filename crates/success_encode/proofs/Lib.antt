pub mod Lengths
pub mod SizeLaws
pub mod WriteLaws
pub mod Exact
