pub mod Bits
pub mod NextBit
pub mod Counted
pub mod Members
pub mod Compared
pub mod Differing
pub mod Ordered
