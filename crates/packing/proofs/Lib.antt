pub mod PartOrder
pub mod Filling
pub mod Stores
pub mod ThreeStores
pub mod LongProducts
