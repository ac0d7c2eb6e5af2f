-- Laws of the records of a day file.
pub mod Recorded
pub mod Looking
pub mod Written
