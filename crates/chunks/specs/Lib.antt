-- What is promised of a chunk's answers, in terms of the definitions' session.
pub mod SoundDesk
pub mod Points
