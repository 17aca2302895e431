pub mod State
pub mod Lights
pub mod Operations
pub mod Marks
pub mod Active
pub mod Reads
