pub mod Lengths
pub mod Outcomes
pub mod LightMask
pub mod Depends
pub mod Fits
