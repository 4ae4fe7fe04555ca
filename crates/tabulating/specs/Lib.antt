-- What contracts cite of a table that is filled.
pub mod Filled
pub mod Plain
pub mod Rows
pub mod Leading
pub mod Divided
pub mod Lies
