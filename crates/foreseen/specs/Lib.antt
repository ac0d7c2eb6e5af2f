-- What a move will come to in the main book.
pub mod Foreseen
