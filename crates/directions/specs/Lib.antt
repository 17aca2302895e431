pub mod Scale
pub mod Magnitude
pub mod Direction
