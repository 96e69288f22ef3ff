pub mod LineLaws
pub mod RoundTrip
pub mod Exact
