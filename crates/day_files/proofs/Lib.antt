-- Laws of the day file.
pub mod Changed
pub mod Filed
pub mod Unique
pub mod Bytes
pub mod Counting
pub mod Promised
pub mod Tried
