-- Laws of the front of a day file.
pub mod Walking
pub mod Looks
pub mod Read
pub mod Cutting
