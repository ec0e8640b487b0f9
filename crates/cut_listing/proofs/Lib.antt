pub mod Asked
pub mod Balanced
pub mod Bands
pub mod Listed
pub mod Sorted
pub mod Passes
pub mod Ordered
pub mod Pairs
pub mod Counted
mod Numbered
