pub mod Entries
pub mod Fits
mod Cofactors
mod Examples
