pub mod KindLaws
pub mod RowLaws
pub mod Order
pub mod Few
pub mod WalkLaws
pub mod Exact
