pub mod Left
pub mod Kernels
pub mod Scanning
pub mod Passes
