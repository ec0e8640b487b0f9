pub mod Walks
pub mod Repeats
pub mod Walking
pub mod RangeMasses
pub mod Weighing
