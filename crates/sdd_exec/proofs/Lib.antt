mod All
pub mod Picked
pub mod Steps
pub mod Distinct
pub mod Complete
pub mod Product
pub mod Keyed
pub mod Shipping
pub mod Splices
pub mod Sieves
pub mod Inside
pub mod Sifted
pub mod Enough
pub mod Explored
pub mod Kept
pub mod Planned
pub mod Stepped
