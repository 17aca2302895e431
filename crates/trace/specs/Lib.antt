pub mod Count
pub mod Calls
pub mod World
pub mod Step
pub mod Claim
