-- The laws that this crate's functions are proved by, and those that other crates cite: the next line.
pub mod LineReading
pub mod AboveCount
