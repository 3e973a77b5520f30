pub mod AllKinds
pub mod Examples
pub mod Fits
pub mod Piped
pub mod Reading
pub mod Source
pub mod Spelling
