mod All
pub mod Decoded
pub mod Items
pub mod Laws
pub mod MessageLaws
pub mod NumberLaws
pub mod Numbered
pub mod PartLaws
pub mod Texts
