-- The laws of a screen: its parts compared, high and low with an event's trades, and the whole.
pub mod Same
pub mod Whole
pub mod Widening
pub mod Counted
