mod All
pub mod MadeSummary
pub mod Verdicts
