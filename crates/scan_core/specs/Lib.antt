pub mod Machine
pub mod Shown
pub mod Laws
