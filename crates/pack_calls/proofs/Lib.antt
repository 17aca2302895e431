pub mod Fills
mod Examples
