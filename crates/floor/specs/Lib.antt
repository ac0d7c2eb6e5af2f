-- What ./floor promises between a read and a write.
pub mod Serving
