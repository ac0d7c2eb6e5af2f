-- The calls that make no trade, two and two as one, and what they leave of a book's bytes.
pub mod Changing
pub mod Reading
