pub mod LineReader
pub mod Pieces
pub mod Small
pub mod Told
pub mod Values
