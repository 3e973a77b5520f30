pub mod Catalogues
pub mod Histories
