-- The judge as definitions, what its call promises, and what is proved of it.
pub mod Judging
pub mod Promises
pub mod Verdicts
