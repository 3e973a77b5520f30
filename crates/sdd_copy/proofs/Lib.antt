mod All
pub mod Contents
pub mod Initial
pub mod Members
pub mod Order
pub mod Ranges
pub mod Sorting
pub mod Represented
pub mod Uses
