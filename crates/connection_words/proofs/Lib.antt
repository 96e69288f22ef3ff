pub mod FieldLaws
pub mod Words
pub mod Lengths
pub mod MessageStores
pub mod Exact
