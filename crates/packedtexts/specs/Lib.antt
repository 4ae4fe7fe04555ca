pub mod FormulaText
