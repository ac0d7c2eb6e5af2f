-- A script packed into a day file: as a whole, event by event, and chunk by chunk.
pub mod Packing
pub mod Chunkwise
pub mod Promises
