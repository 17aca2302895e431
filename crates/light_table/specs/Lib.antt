pub mod Entry
pub mod Kinds
pub mod Overflow
pub mod Active
