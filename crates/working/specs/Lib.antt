pub mod Working
pub mod Polynomial
pub mod Family
pub mod Rotation
pub mod Change
