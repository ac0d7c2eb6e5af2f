-- What is promised of the judge, proved, and the definitions tried on examples.
pub mod Rightness
pub mod Own
pub mod NoneLeft
pub mod Freedoms
pub mod Judged
pub mod Tried
