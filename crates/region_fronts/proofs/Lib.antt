pub mod FrontLists
pub mod Joined
pub mod Opening
pub mod Placing
pub mod Runs
