-- The laws behind the calls of the fixed-price book.
pub mod AskedRules
pub mod Entries
pub mod Entered
pub mod OrderLaws
pub mod Testing
pub mod Cancels
pub mod Determined
