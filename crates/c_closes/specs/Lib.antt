pub mod Closes
