pub mod Put
pub mod Inside
pub mod Laws
mod Examples
