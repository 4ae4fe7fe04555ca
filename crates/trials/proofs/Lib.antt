-- The laws that this crate's functions are proved by.
pub mod PackedLetters
