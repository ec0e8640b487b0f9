pub mod Stops
pub mod Statuses
