-- What contracts cite of the sums of the pairs.
pub mod Judged
pub mod Answer
pub mod LapWord
