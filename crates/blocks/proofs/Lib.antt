-- The laws behind the functions on block trades.
pub mod Readiness
pub mod Fitting
pub mod Meeting
pub mod Dealing
pub mod Staying
pub mod Confirmed
pub mod Entered
pub mod Newcomers
