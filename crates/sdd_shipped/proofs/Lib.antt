mod All
pub mod Ascending
pub mod Members
pub mod Serving
