pub mod Entry
pub mod Sum
pub mod Product
pub mod Transposition
pub mod Inversion
pub mod Cofactors
pub mod View
