pub mod WordFronts
