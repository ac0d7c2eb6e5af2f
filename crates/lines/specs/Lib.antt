-- What is promised of one line's answer in any memory.
pub mod OneLine
