-- The laws of the turns.
pub mod Turns
