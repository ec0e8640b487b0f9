pub mod Insertion
pub mod Laws
pub mod Growth
pub mod Ways
pub mod Levels
pub mod After
