pub mod Parts
pub mod Outcomes
pub mod MirrorBytes
pub mod Laws
