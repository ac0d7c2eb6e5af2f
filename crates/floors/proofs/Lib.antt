-- What ./floor has in common with ./run, and its definitions tried on examples.
pub mod Beside
pub mod Tried
