-- The laws behind partners, and those that callers cite.
pub mod Tests
pub mod Line
pub mod Naming
pub mod Turns
pub mod Buyers
pub mod Walked
pub mod Due
pub mod Joining
pub mod Classes
pub mod Pairs
pub mod InPairs
pub mod Once
pub mod Sides
pub mod Gathering
pub mod Meeting
