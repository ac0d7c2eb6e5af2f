-- The laws behind the judge's code.
pub mod Granting
pub mod Settling
pub mod Turns
pub mod Deciding
