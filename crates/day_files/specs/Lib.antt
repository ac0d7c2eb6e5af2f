-- The day file as definitions: files of blocks, written and read, and what is promised of them.
pub mod Files
pub mod Promises
