pub mod Key
pub mod RowCounts
pub mod Fill
