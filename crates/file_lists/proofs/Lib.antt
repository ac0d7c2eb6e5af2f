-- Laws of the records of a day file as a list.
pub mod Placed
pub mod Copying
pub mod Listed
pub mod Told
pub mod Promised
pub mod Tried
