mod All
pub mod AfterRound
pub mod ClassRejections
pub mod ClassWriters
pub mod Deliveries
pub mod FewRounds
pub mod Hits
pub mod NextRound
pub mod OfLogs
pub mod OncePerLink
pub mod OneAfterOther
pub mod ReadsProcessedOnce
pub mod Stages
