-- What other crates cite: what follows of any admissible order, the orders that are admissible, weights, and where words stand.
pub mod Admissible
pub mod Lexicographic
pub mod Weights
pub mod WeightedOrder
pub mod WordOrder
pub mod Standing
pub mod Comparing
pub mod ComparedExamples
pub mod LaidWords
