-- Laws of the packer.
pub mod Growing
pub mod Stored
pub mod LineByLine
pub mod Ended
pub mod Chunks
