mod Levels
pub mod Lessening
mod Tied
mod Hubs
