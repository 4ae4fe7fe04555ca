-- What other crates cite: what follows where the arrays hold a formula, and what the changes of specs/Change are of the polynomial.
pub mod BuiltWords
mod StoredBlocks
mod Halving
pub mod BehindTerms
pub mod Places
pub mod LeftOut
mod Sinks
pub mod NewTerm
pub mod SameWord
mod Inserting
mod ReplacedTerm
