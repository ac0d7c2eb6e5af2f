-- Laws of a move after the close.
pub mod Appending
pub mod Steps
pub mod Places
pub mod Bounds
pub mod Settled
pub mod Rooms
pub mod Passing
pub mod Ahead
pub mod MoveLaws
pub mod Whole
