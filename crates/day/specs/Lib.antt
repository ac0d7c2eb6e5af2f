-- What the six calls promise, and the price list as a run of prices.
pub mod Promises
pub mod Listings
