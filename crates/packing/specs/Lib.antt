pub mod Inputs
pub mod Pack
