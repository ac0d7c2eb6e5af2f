-- What a new declaration meets.
pub mod Meeting
