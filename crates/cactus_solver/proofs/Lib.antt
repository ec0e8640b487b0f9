pub mod Lifting
pub mod Smaller
pub mod Standing
mod ByClasses
pub mod Connected
mod LightCuts
