pub mod Runs
pub mod Accesses
pub mod Shown
pub mod Theorems
pub mod RunExamples
pub mod AccessExamples
