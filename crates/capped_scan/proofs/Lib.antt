pub mod MaxTrees
pub mod Raised
pub mod Layouts
pub mod Standing
