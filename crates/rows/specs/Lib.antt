pub mod Rows
pub mod Matrices
pub mod Material
pub mod Fog
pub mod Ambient
