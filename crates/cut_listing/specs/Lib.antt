pub mod Asks
pub mod Bands
pub mod Listings
pub mod Laws
pub mod Pairs
