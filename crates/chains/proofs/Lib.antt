-- The calls of each door keep step with the definitions.
pub mod Rows
pub mod Ranges
pub mod Shown
pub mod Fitting
pub mod Records
pub mod Bytes
pub mod Opened
pub mod Untouched
pub mod ForC
pub mod Returning
pub mod Writing
