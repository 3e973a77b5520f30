-- Of the module for undeclared transactions of the site U.
pub mod Due
pub mod Fits
pub mod Standing
pub mod State
pub mod Views
