-- What other crates cite: terms by number, what moving entries does to them, and a term inserted among them; polynomials by number, and the entries
-- between two places.
pub mod Terms
pub mod RotationRight
pub mod RotationLeft
pub mod Rotations
pub mod MovedEntries
pub mod Inserted
pub mod Falling
pub mod Between
pub mod Families
