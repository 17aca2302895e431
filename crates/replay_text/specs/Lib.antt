pub mod Answer
pub mod Exactly
pub mod Hex
pub mod Room
