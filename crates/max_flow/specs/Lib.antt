pub mod Tree
pub mod Rows
pub mod Flow
