pub mod RowLaws
pub mod PathLaws
pub mod Theorems
pub mod Exact
