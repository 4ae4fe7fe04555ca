-- The laws that this crate's functions are proved by.
pub mod NumberLength
pub mod NumbersLine
pub mod RefusedLine
pub mod ListOrRefusal
