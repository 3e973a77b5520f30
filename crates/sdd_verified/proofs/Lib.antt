mod All
pub mod AllCounted
pub mod AllSummed
pub mod ClassPlaces
pub mod CleanCopies
pub mod CleanWords
pub mod EachMarked
pub mod FirstLines
pub mod GivenValues
pub mod ListAt
pub mod MadeSettles
pub mod Moved
pub mod NoneDown
pub mod Numbered
pub mod NumbersBack
pub mod OneText
pub mod PartsBack
pub mod PassingLines
pub mod PendingLines
pub mod Positions
pub mod ReportLines
pub mod ReportParts
pub mod Reported
pub mod SpelledParts
pub mod Submitting
pub mod ValuesKept
pub use Rattle.sdd_run.proofs.script as script
pub use Rattle.sdd_run.proofs.report as report
pub use Rattle.sdd_verify.proofs as verifying
pub use Rattle.sdd_run.proofs.make as make
pub use Rattle.sdd_run.proofs.world as world
pub use Rattle.sdd_run.proofs as run
