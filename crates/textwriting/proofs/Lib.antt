pub mod EightStores
