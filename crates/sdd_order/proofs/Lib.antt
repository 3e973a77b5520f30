mod All
pub mod ByLinks
pub mod InOrder
pub mod Serial
