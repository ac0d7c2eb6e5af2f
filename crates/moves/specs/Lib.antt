pub mod Stops
pub mod Moving
