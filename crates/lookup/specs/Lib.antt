-- Where an order stands, by its number.
pub mod Piles
