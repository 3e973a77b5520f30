mod All
pub mod NoThird
pub mod OneTime
pub mod Theorems
pub mod Worked
