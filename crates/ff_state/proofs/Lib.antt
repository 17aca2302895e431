pub mod Fields
pub mod Found
pub mod Places
pub mod Room
pub mod Marking
pub mod Frame
pub mod Fresh
mod Examples
