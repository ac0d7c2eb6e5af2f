-- The law of a read.
pub mod Filling
