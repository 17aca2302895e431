pub mod Fits
mod Examples
pub mod Literals
