-- The laws behind one line's answer in any memory.
pub mod AnyMemory
pub mod Determined
