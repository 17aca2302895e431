pub mod HostOperations
pub mod Bits
pub mod Images
pub mod Book
