-- Laws of this crate's functions; no other crate cites them.
mod Texts
mod BlockTexts
