-- The program before anything is read.
pub mod Outset
