pub mod Beside
pub mod Entering
pub mod Fronts
pub mod Listed
pub mod Newest
pub mod Open
