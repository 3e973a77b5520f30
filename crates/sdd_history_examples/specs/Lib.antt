pub mod Catalogues
pub mod Histories
pub mod Keeping
pub mod Tables
pub mod Texts
