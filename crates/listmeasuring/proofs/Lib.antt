pub mod Lines
pub mod DigitCount
pub mod Counting
