pub mod Squares
pub mod Values
pub mod Gaps
pub mod Laws
pub mod Operands
pub mod Steps
