-- What other crates cite: six zeros hold the empty word, and short words fit around a word of the table; what is taken away is a line of the
-- basis or of the relations; and the leading words lie in the bytes, have at most 24 letters each, and the second of a pair begins in the first, or at
-- its end.
pub mod Fitting
pub mod TakenLines
pub mod LeadingWords
pub mod ShortHeads
mod CutFactors
mod Comparisons
mod OverlapDifference
mod Differences
