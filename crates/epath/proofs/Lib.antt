pub mod Held
pub mod RoundTrip
pub mod Theorems
