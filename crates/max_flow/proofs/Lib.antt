pub mod Trees
pub mod Reaching
pub mod Pushing
pub mod Augmenting
pub mod RowStarts
pub mod Showing
pub mod Members
