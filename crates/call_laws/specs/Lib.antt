pub mod HostOperations
pub mod Book
