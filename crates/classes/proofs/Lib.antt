-- The laws behind classes, and those that callers cite.
pub mod Keys
pub mod Merging
pub mod Comparing
pub mod Filling
pub mod Halves
