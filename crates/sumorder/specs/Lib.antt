pub mod Reached
pub mod Row
