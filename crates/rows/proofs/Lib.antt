pub mod Stores
pub mod Floats
pub mod Items
pub mod Fits
pub mod Scene
pub mod Literals
