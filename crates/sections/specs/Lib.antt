pub mod Sections
pub mod Key
pub mod Counts
pub mod RowCount
