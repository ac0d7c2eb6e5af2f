-- The laws of the packer's turns.
pub mod Turns
