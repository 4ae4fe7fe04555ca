pub mod Position
pub mod Leading
pub mod Kept
