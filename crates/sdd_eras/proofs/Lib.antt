mod All
pub mod EraFits
pub mod EraOfWhole
pub mod EraSets
pub mod Extended
pub mod Lists
pub mod Retired
