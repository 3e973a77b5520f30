mod All
pub mod Accepted
pub mod AtFault
pub mod Calls
pub mod Ended
pub mod FileReads
pub mod Requests
pub mod Sinks
pub mod Verdicts
pub mod Offered
