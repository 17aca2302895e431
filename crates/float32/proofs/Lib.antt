pub mod Nan
pub mod Laws
pub mod Grid
pub mod Units
pub mod Arithmetic
mod Examples
