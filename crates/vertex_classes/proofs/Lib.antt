pub mod Joining
pub mod Numbered
mod Firsts
mod Roots
