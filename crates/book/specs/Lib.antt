-- What the book's functions say of rows: rows as records, what a sound book gives, priority as a number, where an order stands, the
-- orders of a side as they stand, places found by a test, shares that come off the sides, lists written at their front, what trades
-- come to, and what a call left in memory.
pub mod Books
pub mod Standing
pub mod Priority
pub mod Seats
pub mod Lines
pub mod Heads
pub mod Settling
pub mod Places
pub mod Writing
pub mod Deals
pub mod Promises
