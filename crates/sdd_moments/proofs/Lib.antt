mod All
mod Awaited
pub mod Between
pub mod Came
mod FirstLinks
pub mod Flights
mod Found
mod LeftAlone
mod LinksKept
pub mod LinksLooked
mod Looked
pub mod Loops
mod ModulesPassed
mod ModulesVisited
pub mod Numbered
mod PipesBegun
mod PipesKept
mod PipesLooked
pub mod PipesVisited
pub mod Queued
pub mod QueuesKept
mod QueuesLooked
mod Reached
pub mod SitesReached
pub mod Recorded
mod SitesPassed
pub mod SitesPlaced
pub mod SitesThere
pub mod SoFar
mod Sourced
mod Touched
pub mod Visited
pub use Rattle.sdd_progress.proofs as progress
pub use Rattle.sdd_schedule.proofs as schedule
