pub mod RouteLaws
pub mod Exact
