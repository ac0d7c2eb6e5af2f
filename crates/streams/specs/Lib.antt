-- What a read leaves.
pub mod Streams
