-- The laws behind the functions on the fixed-price book.
pub mod Heads
pub mod Facing
pub mod Sides
pub mod Dealing
pub mod Counting
pub mod Closing
pub mod Taking
pub mod Settling
pub mod Arriving
pub mod Tallying
pub mod Readiness
