-- The laws behind finding an order by its number, and those that callers cite.
pub mod Lasts
pub mod Piling
pub mod Seeking
