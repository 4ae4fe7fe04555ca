pub mod HeadLine
pub mod CaseTexts
