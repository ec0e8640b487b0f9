pub mod SomeCut
pub mod Moving
pub mod BestSide
pub mod Gathered
