pub mod Flat
pub mod FlatCuts
pub mod Flattened
pub mod FlatLaws
pub mod Tasks
pub mod Shown
