mod All
pub mod Covered
pub mod Alike
pub mod ReadColumns
pub mod Changed
pub mod Sure
pub mod SureRows
pub mod Rows
pub mod Cells
pub mod Snapshots
pub mod FirstWins
pub mod Cycles
pub mod Order
pub mod Pivots
pub mod Replays
pub mod Theorems
mod Worked
