-- What two declarations that fit have in common, and places sorted by it.
pub mod Classes
pub mod Sorting
