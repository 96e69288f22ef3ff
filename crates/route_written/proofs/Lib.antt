pub mod WrittenLaws
pub mod RecordLaws
pub mod Exact
