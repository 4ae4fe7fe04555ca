-- What other crates cite: the laws that follow in any field, the primes, and GF(p) and GF(256) as fields; and the laws that this crate's functions are
-- proved by.
pub mod Derived
pub mod Computed
pub mod Table
pub mod Primality
pub mod ByteSums
pub mod ByteProducts
pub mod ByteTables
pub mod ByteField
pub mod ByteExamples
pub mod Modular
pub mod Fields
pub mod Reduced
pub mod Inverse
mod Test
