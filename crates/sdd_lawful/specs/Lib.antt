pub mod SoundInput
pub mod Made
