pub mod BodyLaws
pub mod SizeLaws
pub mod Exact
