pub mod Given
pub mod Faults
