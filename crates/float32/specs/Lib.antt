pub mod Larger
pub mod Root
pub mod Steps
pub mod Cosine
