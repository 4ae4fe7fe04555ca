-- What contracts cite of an accepted package.
pub mod Accepted
