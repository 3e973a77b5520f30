-- Of the data module of a site D.
pub mod Acted
pub mod ByClass
pub mod Prefix
pub mod ViewSteps
