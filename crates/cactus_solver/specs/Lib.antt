pub mod Reducing
pub mod SolvedLists
pub mod LightCuts
