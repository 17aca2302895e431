pub mod Floor
pub mod Cone
pub mod Light
