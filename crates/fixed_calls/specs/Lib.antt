-- The rules of a fixed-price order in the groups in which the code goes through them, its reply, and what its calls promise.
pub mod Rules
pub mod Entries
pub mod Promises
