-- The laws behind the converter, and the theorem on the sessions of old scripts.
pub mod Balances
pub mod Bytes
pub mod OneLine
pub mod Sessions
pub mod Tried
pub mod Pendings
pub mod Steps
pub mod Determined
