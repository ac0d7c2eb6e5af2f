pub mod OrderLaws
pub mod Counted
pub mod Entered
pub mod Cancels
