-- What the reading of chunks says, in terms of the definitions' lines, for any program that answers line by line.
pub mod Readers
pub mod Chunks
pub mod Answers
pub mod Points
pub mod Turns
