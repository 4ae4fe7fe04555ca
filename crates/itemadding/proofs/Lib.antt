mod ProductWords
mod Sums
mod Products
pub mod Lowering
mod FirstTerm
