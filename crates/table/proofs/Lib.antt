pub mod WordSizes
pub mod Families
pub mod FallingWords
pub mod LeadingTerms
pub mod Inverses
