mod All
pub mod Counts
pub mod Few
pub mod Known
pub mod Lists
pub mod Pairs
pub mod Tables
