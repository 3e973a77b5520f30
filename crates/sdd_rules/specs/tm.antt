-- Of the transaction module of a site T.
pub mod Due
pub mod Fits
pub mod OpenAsks
pub mod State
pub mod Views
