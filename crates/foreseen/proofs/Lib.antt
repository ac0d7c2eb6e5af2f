-- The close after a move, by its trades.
pub mod Closes
