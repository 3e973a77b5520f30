pub mod Deeds
pub mod Eras
pub mod Fits
pub mod Graphs
pub mod System
pub mod Theorems
pub mod Undeclared
