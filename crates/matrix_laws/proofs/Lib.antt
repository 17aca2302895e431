mod Rounding
mod Signed
mod Integers
mod Values
mod Held
mod Four
mod Moderate
mod Dot
mod Whole
pub mod Products
mod Rows
pub mod Sections
pub mod Tables
mod Examples
mod Uses
