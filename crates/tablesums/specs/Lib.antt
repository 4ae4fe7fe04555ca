-- What contracts cite of sum lines and of overlaps and inclusions on a table.
pub mod ShortWords
pub mod Lines
pub mod Leading
pub mod Factors
pub mod Heading
