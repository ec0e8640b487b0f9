pub mod Contracted
pub mod Kept
pub mod Light
pub mod Scanned
pub mod Numbered
pub mod Passes
