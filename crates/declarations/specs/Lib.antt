-- What the functions on rows of declarations ask of them.
pub mod Declared
