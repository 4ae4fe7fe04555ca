-- What other crates cite: the leading words of a table's basis by their numbers, and that the spot of their codes is the spot of the basis.
pub mod SpotOfLeads
pub mod TableLeads
pub mod SpotOfCodes
pub mod SpotOfTable
-- The laws that this crate's functions are proved by.
mod Bits
mod Lowest
mod OneMark
mod Agreement
mod CodeMarks
mod Pairs
mod Sliding
mod CodeSieve
mod BlockTurns
mod Places
