-- A sound desk stays sound.
pub mod SoundDesks
