mod All
pub mod BankParts
pub mod Drawn
pub mod Names
pub mod Owner
pub mod TwoPieces
pub mod ValidEvents
pub mod ValidNames
pub mod ValidTxns
pub mod ValidWorkloads
