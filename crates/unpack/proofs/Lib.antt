-- Laws of unpacking.
pub mod Put
pub mod Chunks
pub mod Promised
