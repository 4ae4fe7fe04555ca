pub mod FieldReading
pub mod Fronts
