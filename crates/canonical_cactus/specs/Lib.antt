pub mod Canonical
pub mod Plain
pub mod Laws
pub mod Standing
pub mod Inner
pub mod Making
pub mod FirstBest
pub mod Minima
