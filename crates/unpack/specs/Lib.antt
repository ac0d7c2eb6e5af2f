-- A day file unpacked into a script: as a whole, chunk by chunk, and what is promised of it.
pub mod Unpacking
pub mod Promises
