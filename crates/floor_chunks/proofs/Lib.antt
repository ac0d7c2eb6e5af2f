-- A sound day stays sound, whatever a line of ./floor asks for.
pub mod SoundFloors
