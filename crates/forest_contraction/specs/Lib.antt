pub mod Forests
pub mod Left
pub mod Leaning
