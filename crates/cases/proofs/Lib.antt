-- The laws that this crate's functions are proved by.
pub mod SaidNumbers
pub mod AnswerStores
pub mod AnswerTexts
