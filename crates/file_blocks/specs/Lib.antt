-- A block of a day file, as definitions: written, read, and tested; and one byte of it changed.
pub mod Blocks
pub mod Changed
