-- What contracts cite of the kinds of sums.
pub mod Kinds
pub mod Judged
