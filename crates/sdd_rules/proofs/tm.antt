-- Of the transaction module of a site T.
pub mod Lists
pub mod OpenAsks
pub mod ViewSteps
