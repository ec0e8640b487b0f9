pub mod Parts
pub mod Doubling
pub mod Laws
pub mod Sums
