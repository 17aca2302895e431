pub mod ZeroLight
pub mod LowerBound
pub mod Insertion
pub mod Sorted
pub mod Compaction
mod Examples
