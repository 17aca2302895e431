pub mod Lists
pub mod Masks
