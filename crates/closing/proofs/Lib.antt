-- The laws of closing up; and what the function is proved by.
mod Turns
pub mod Dropping
