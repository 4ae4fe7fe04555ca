-- The laws that this crate's functions are proved by; and one on the words of short forms, which documents cite.
mod SpotsWithin
mod Targets
mod NotLonger
mod TermsBefore
mod RunTurns
pub mod ShortWords
mod CutWords
mod StepLaws
mod NoneFound
mod TargetLaws
mod Advances
mod Progress
