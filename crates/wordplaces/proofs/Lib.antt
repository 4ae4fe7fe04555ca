pub mod PlaceTurns
pub mod TwoLetters
pub mod EightLetters
pub mod ComparingTurns
