-- What the functions of continuous trading say: an order on its way through the other side, its prices by its kind, and the trades
-- that the book is settled by.
pub mod Sweeping
pub mod Entering
pub mod Settling
