pub mod Letters
pub mod KeyedWords
pub mod WordBlocks
