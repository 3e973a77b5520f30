pub mod ClassRejections
pub mod RoundsOnLinks
pub mod SettleRounds
