pub mod OrderTurns
pub mod Numbers
pub mod Blocks
