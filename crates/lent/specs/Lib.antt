-- What the calls on a lent slice of order records promise.
pub mod Calls
