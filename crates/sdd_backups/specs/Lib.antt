pub mod Links
pub mod Log
pub mod NoteTests
pub mod Sends
pub mod Standing
pub mod State
pub mod Steps
pub mod Stretches
