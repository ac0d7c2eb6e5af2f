-- What the converter of old scripts is held to: the older line, an input converted, and a conversion chunk by chunk.
pub mod Older
pub mod Converting
pub mod Chunkwise
pub mod Promises
