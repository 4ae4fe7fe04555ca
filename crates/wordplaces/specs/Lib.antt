pub mod TwoLetters
pub mod EightLetters
