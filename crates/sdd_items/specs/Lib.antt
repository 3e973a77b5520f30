pub mod Items
pub mod Keyed
