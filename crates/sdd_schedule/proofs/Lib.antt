mod All
pub mod Carrying
pub mod EachEvent
mod EventFollowed
pub mod GivenMore
pub mod HomesExist
pub mod InRounds
pub mod Lists
mod Outsiders
pub mod PlacesListed
mod RoundsFollowed
mod Scheduled
pub use Rattle.sdd_world.proofs as world
