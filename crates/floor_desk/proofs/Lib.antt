-- The laws of an answer of ./floor.
pub mod Questions
pub mod Wishes
