pub mod Branch
pub mod Tests
pub mod Options
pub mod Lists
pub mod Half
