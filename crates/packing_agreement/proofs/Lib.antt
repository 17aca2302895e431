pub mod Agreement
pub mod Table
mod Scene
mod Preview
