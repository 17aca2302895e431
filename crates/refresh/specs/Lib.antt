pub mod Answer
pub mod Written
pub mod Mirror
