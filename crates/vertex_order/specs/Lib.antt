pub mod Finding
pub mod Numbering
