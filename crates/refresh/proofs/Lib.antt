pub mod Answers
pub mod Parts
pub mod Packed
pub mod Holding
pub mod Laws
