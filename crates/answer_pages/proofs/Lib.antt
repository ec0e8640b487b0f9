pub mod Putting
pub mod Between
mod Above
mod Augmented
mod Growths
