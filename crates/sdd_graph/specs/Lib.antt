pub mod Edges
pub mod Examples
pub mod Graph
pub mod Nodes
pub mod Uses
