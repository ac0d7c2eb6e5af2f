-- How numbers, records and lists lie in memory.
pub mod Layout
pub mod Lengths
