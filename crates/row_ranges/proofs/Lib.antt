pub mod Within
pub mod Cut
pub mod Own
pub mod Whole
