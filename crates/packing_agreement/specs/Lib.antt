pub mod Abstract
pub mod Cases
