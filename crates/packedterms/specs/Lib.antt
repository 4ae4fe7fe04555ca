-- What contracts cite of the working formula with packed words.
pub mod Formula
pub mod Finding
pub mod Behind
pub mod Change
pub mod InFormula
