pub mod Default
