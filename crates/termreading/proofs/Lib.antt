pub mod TermTurns
