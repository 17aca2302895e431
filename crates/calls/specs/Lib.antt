pub mod Answer
pub mod Call
pub mod Images
pub mod Materials
pub mod Bits
pub mod RenderStates
pub mod Refusal
