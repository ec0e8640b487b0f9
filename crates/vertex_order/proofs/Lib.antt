mod Found
pub mod Keeping
