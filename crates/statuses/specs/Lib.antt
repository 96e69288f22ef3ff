pub mod Statuses
pub mod Layouts
