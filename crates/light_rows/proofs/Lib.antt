pub mod Fits
mod Examples
pub mod Scene
pub mod Literals
