pub mod Maxima
pub mod Scan
