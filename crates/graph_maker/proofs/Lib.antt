pub mod Climbs
pub mod Members
pub mod Making
pub mod Connected
