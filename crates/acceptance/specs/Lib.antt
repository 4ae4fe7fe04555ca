pub mod Content
pub mod Check
pub mod Facts
pub mod ZeroBasis
pub mod Acceptance
pub mod Reduction
