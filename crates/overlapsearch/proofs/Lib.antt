-- The laws that this crate's functions are proved by, and those of a walk from pair to pair.
pub mod Passing
pub mod PassedOver
pub mod Positions
pub mod Searching
pub mod SeenPairs
pub mod KeptPairs
