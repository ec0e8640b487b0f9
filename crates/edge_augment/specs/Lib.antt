pub mod Ends
pub mod NewEdges
pub mod Laws
pub mod Augmentations
pub mod Raises
