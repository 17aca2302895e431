pub mod Agrees
pub mod LightReads
