pub mod Links
pub mod Mailboxes
pub mod Nets
pub mod Sending
pub mod Sound
