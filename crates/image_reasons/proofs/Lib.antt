pub mod Every
pub mod Chains
pub mod Ascends
pub mod Numbers
pub mod Meaning
pub mod Unused
pub mod Accepted
pub mod Examples
