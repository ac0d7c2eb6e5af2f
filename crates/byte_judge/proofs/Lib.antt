-- The laws of claims as bytes.
pub mod Reading
