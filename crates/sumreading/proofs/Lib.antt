pub mod LineFields
pub mod SumTurns
