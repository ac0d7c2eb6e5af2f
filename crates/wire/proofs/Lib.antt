-- The laws of the calls on bytes of any length.
pub mod Refused
pub mod Trades
pub mod Changes
pub mod Readings
pub mod Determined
pub mod Judged
pub mod Filed
