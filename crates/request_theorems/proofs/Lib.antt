pub mod Routes
pub mod RoundTrip
pub mod OpenTrip
pub mod Theorems
pub mod OverTheorems
