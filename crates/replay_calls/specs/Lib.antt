pub mod Letters
pub mod Made
