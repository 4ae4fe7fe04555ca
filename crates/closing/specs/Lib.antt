pub mod Closing
pub mod Denoted
pub mod Examples
