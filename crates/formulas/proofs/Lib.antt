pub mod FormulaTurns
