-- The laws of the layout.
pub mod Runs
pub mod Sizes
pub mod Rows
pub mod Counted
pub mod Stored
pub mod Back
pub mod Held
