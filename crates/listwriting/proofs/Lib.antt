pub mod LineStores
pub mod NamesLine
pub mod Writing
