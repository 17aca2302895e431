pub mod Table
pub mod Format
pub mod Write
pub mod Read
