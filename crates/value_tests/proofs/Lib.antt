pub mod Played
pub mod Uneven
