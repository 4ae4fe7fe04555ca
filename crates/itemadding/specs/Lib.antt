-- What contracts cite of multiples of a table's polynomials.
pub mod Fits
pub mod LeadPlace
pub mod Lower
