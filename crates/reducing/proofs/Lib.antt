-- What bringing a formula to its short form is proved by.
mod BlankIndex
mod Cases
mod FormulaRead
