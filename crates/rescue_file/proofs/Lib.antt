-- The laws of the rescue's turns.
pub mod Turns
