-- That the list holds each pair once, in its order, and none else; how many there can be; that lines for each of them certify a basis; and that a basis
-- that document 01 accepted has 01's list and differences.
pub mod RisingLists
pub mod PartPairs
pub mod Listed
pub mod FewPairs
pub mod Certification
pub mod TrimmedLists
