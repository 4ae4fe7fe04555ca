-- What other crates cite: laws of `All`, of parts of lists and their entries, of functions at each element, of runs of stores, of `same`, and of
-- a yes or no.
pub mod Every
pub mod Parts
pub mod Entries
pub mod Maps
pub mod Stores
pub mod Sameness
pub mod Bools
