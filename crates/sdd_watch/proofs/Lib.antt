mod All
mod Followed
pub mod AtD
pub mod AtT
pub mod Attempts
mod BeginsReport
pub mod Committed
pub mod Cut
pub mod CutDifference
pub mod EachEvent
pub mod FirstPlaces
pub mod Folding
pub mod FoundBy
mod GivenMore
pub mod Happening
pub mod KeptBeside
pub mod MadeLists
mod RoundEntry
pub mod RowsAreReported
pub mod Said
pub mod Saying
pub mod TakingPart
mod TextSoFar
pub mod ToTell
pub mod Unapplied
pub use Rattle.sdd_moments.proofs.progress.obligations as obligations
pub use Rattle.sdd_moments.proofs.progress as progress
mod ReachedAlone
pub use Rattle.sdd_moments.proofs as moments
