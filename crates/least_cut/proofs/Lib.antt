pub mod Even
pub mod LightEdges
pub mod FewEdges
pub mod Sweeping
pub mod ByDegrees
pub mod FoundCuts
pub mod CutLists
