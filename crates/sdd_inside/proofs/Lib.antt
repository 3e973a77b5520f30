pub mod Changes
pub mod Digits
pub mod EventWords
pub mod Loops
pub mod Members
pub mod Strings
pub mod Verbatim
