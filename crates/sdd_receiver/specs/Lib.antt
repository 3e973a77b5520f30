pub mod Arrivals
pub mod Receiving
