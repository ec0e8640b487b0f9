pub mod Text
pub mod Puts
pub mod Listings
pub mod Augmenting
pub mod Growing
pub mod Lines
pub mod Pieces
