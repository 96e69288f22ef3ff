pub mod ItemLists
pub mod JoinLaws
pub mod Exact
