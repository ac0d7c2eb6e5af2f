-- What every function that prints promises.
pub mod Printing
