pub mod Word
pub mod Order
pub mod Below
pub mod Weighted
pub mod Place
pub mod Laid
