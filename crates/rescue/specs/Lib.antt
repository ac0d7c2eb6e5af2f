-- The rescue of a damaged day file: as definitions, as statements, as lines, and chunk by chunk.
pub mod Rescue
pub mod Promises
pub mod Marks
pub mod Chunkwise
