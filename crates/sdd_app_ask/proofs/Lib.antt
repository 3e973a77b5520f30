pub mod Forms
pub mod LongReports
pub mod Verdicts
