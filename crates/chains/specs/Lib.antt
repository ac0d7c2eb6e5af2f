-- Chains of calls at each door, begun by an accepted opening.
pub mod Rows
pub mod Records
pub mod Bytes
pub mod ForC
pub mod Returning
pub mod Writing
