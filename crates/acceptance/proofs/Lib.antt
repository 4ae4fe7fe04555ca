-- That the check answers no refusal exactly where the facts of acceptance hold.
pub mod Verdicts
pub mod Remaining
pub mod FirstZero
pub mod SumFacts
pub mod LinesTaken
pub mod AcceptedIff
pub mod Accepted
pub mod LineFacts
pub mod ReadableContent
pub mod Packages
pub mod SlicesContent
pub mod FormulaContent
pub mod FormulaSlices
