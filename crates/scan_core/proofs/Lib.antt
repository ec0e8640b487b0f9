pub mod Keeps
pub mod Opened
pub mod Shows
pub mod Gone
mod Winners
