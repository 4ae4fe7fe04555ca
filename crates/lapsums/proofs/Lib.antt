-- What other crates cite: the answer of a verdict.
pub mod Answers
mod OverlapsJudging
