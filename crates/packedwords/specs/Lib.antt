pub mod Codes
pub mod Packed
