mod Absorb
mod Sum
mod Steps
mod Length
mod Exact
mod Pair
pub mod Agree
mod Examples
