pub mod Nesting
pub mod Packets
pub mod Cards
