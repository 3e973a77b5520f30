-- Of the data module of a site D.
pub mod Copies
pub mod Due
pub mod Fits
pub mod Opens
pub mod Pipes
pub mod Views
pub mod Waiting
