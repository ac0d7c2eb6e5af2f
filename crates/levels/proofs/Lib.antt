-- The laws of the five best prices.
pub mod Tops
pub mod Nexts
