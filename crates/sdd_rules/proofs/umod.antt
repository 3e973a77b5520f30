-- Of the module for undeclared transactions of the site U.
pub mod Counts
pub mod Lists
pub mod ViewSteps
