-- What contracts cite of a package's table.
pub mod Table
pub mod Words
pub mod Polynomials
pub mod Tabled
