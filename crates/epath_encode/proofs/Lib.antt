pub mod WriteLaws
pub mod FileLaws
pub mod Theorems
pub mod Exact
