pub mod Joined
pub mod Assembled
