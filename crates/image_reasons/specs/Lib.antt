pub mod Length
pub mod Every
pub mod Tests
pub mod Reasons
