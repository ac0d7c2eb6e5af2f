-- The laws of the unpacker's turns.
pub mod Turns
