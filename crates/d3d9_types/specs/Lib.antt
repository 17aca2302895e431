pub mod Numbers
pub mod Matrix
pub mod Vector
pub mod Color
pub mod Material
pub mod Light
pub mod RenderStates
