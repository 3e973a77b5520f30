-- Of the attempts of a site that runs transactions, as T and U make them alike.
pub mod Lists
pub mod Modules
pub mod Numbers
pub mod Uses
pub mod Work
