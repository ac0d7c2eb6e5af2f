-- The calls on bytes: what each leaves in memory, what it promises, and two of them as one; the judge and the day file by themselves.
pub mod Exports
pub mod Promises
pub mod Pairs
pub mod Verdicts
pub mod Files
