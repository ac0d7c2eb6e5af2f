-- What the converter promises from chunk to chunk.
pub mod Turns
