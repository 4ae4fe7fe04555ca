-- The laws that the readers are proved by, one for each way through a definition:
pub mod Answers
pub mod CountsLine
pub mod TermLines
pub mod TermJudging
pub mod TermSlices
pub mod ItemStarts
pub mod SumLines
pub mod Joining
pub mod FormulaLines
-- Packages and their texts, the terms of an item, and what a caller of the reader knows:
pub mod FieldNumbers
pub mod LineBounds
pub mod CountsTexts
pub mod HeadTexts
pub mod TermTexts
pub mod TermBlockTexts
pub mod AcceptedTerms
pub mod SumTexts
pub mod SumBlockTexts
pub mod WrittenBlocks
pub mod PackageTexts
pub mod ReadingNumbers
pub mod FieldRefusal
pub mod FormulaTexts
pub mod ItemRuns
pub mod ReadingFacts
