pub mod Ascii
pub mod Pieces
pub mod Bytes
pub mod Number
pub mod Word
pub mod Field
pub mod Answers
