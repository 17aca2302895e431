pub mod Laws
pub mod Magnitude
