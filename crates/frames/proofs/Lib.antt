pub mod CallLaws
pub mod Exact
pub mod Streams
pub mod Holds
pub mod States
pub mod Cuts
pub mod Reach
pub mod Taken
