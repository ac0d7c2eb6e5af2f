-- Laws of the blocks of a day file.
pub mod Looking
pub mod Blocked
pub mod Filled
pub mod Changed
pub mod Unique
pub mod Answered
