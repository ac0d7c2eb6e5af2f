-- What the call of a declaration promises.
pub mod Promises
