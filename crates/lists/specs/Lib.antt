pub mod All
pub mod Same
