pub mod Every
pub mod Bounds
pub mod Shape
pub mod Reach
pub mod Tiles
pub mod Examples
