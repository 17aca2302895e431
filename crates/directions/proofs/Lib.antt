pub mod Magnitude
pub mod Power
pub mod Scaling
pub mod Once
pub mod Range
pub mod Fits
mod Examples
