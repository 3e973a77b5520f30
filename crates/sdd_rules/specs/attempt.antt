-- Of the attempts of a site that runs transactions, as T and U make them alike.
pub mod Acts
pub mod Attempts
pub mod Clocks
pub mod Exchange
pub mod Fits
pub mod Line
pub mod Queues
pub mod Standings
pub mod Starts
