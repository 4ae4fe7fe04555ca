-- The laws that refusal 8 is proved by.
pub mod LeadingHeads
pub mod BasisAnswers
