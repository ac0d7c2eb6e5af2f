-- The laws behind the reading of chunks, and those that callers cite.
pub mod Chunks
pub mod Carrying
pub mod Sessions
pub mod LineByLine
pub mod Turns
