mod All
pub mod Fragments
pub mod OtherClasses
pub mod Rules
pub mod Steps
pub mod WholeSound
