-- What this crate's contracts cite.
pub mod Masks
pub mod CodeIndex
pub mod LeadCodes
pub mod SpotOfWords
pub mod CodeSearch
