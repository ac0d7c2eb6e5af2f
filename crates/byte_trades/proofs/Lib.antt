-- The laws of a call that trades, in rows and in a list as long as the book.
pub mod Rooms
pub mod Traded
