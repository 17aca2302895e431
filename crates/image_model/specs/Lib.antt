pub mod Abstract
