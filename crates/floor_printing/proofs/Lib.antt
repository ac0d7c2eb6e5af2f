-- The laws of the lines that ./floor has beside those of ./run.
pub mod Signing
pub mod Listing
pub mod Screening
