pub mod Forms
pub mod SizeLaws
pub mod PathLaws
pub mod Even
pub mod Exact
