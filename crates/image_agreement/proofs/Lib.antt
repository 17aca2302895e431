pub mod ImageAgrees
pub mod ReadIn
pub mod Reachable
pub mod Examples
