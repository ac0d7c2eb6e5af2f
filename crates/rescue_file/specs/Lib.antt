-- What the rescue promises between a read and a write.
pub mod Serving
