pub mod Spots
pub mod Cuts
pub mod Lines
pub mod Search
pub mod Advance
pub mod Outcome
