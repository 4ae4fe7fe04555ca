-- What other crates cite: words of letters by their tests, and that a package, the next sum line and a formula that were read have such words.
pub mod Letters
pub mod ReadPackage
pub mod SumWords
pub mod FormulaWords
