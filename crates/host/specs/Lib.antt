pub mod Scalars
pub mod Version
