-- The pairing's laws: one turn, the loop that takes one turn after the other, what the trades come to, the book after them, and a
-- move of the clock.
pub mod Turns
pub mod Waiting
pub mod Grants
pub mod Filling
pub mod Auctioned
pub mod Dealing
pub mod Fronts
pub mod Uncrossing
pub mod Auctions
pub mod Moves
