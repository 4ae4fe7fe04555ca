pub mod Services
pub mod Demands
pub mod Examples
pub mod UntrimmedExamples
