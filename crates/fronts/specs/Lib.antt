-- The front of a day file: the blocks before the first refused one.
pub mod Good
pub mod Looking
