-- The laws that this crate's functions are proved by:
pub mod Bytewise
pub mod Cutting
pub mod Digits
pub mod Decimal
-- What other crates cite: what was written is read back, and what reads is the writing of it.
pub mod NumberTexts
pub mod WordTexts
pub mod PieceTexts
pub mod FieldTexts
