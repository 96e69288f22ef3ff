pub mod HexLaws
pub mod Exact
