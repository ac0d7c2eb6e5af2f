-- What the functions on the fixed-price book say: the line that they need, an order that may join it, who trades next at the close, what
-- the close leaves, and orders brought up in their places.
pub mod Ready
pub mod Asked
pub mod Heads
pub mod Leaving
pub mod Line
