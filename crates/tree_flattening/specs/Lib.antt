pub mod Plans
pub mod Arranged
pub mod Grouped
pub mod Walked
pub mod CanonicalFlats
pub mod Counted
