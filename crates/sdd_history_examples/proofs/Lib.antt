mod All
mod Answers
mod Applies
mod Blocks
mod Conditions
mod Each
mod Eras
mod Fitting
mod Keeping
mod Listed
mod Misses
mod OneAfterOther
mod ReadsBefore
mod RunsAlone
mod SecondClassList
pub mod Sound
mod Starts
mod StartsAgain
pub mod Texts
mod Undeclared
mod WaitsAtTwo
mod WaitsForOther
pub mod WorkedTables
