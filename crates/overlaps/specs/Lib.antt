pub mod Pairs
pub mod Overlaps
pub mod Listing
