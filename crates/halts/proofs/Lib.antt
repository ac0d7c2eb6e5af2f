pub mod LedTo
pub mod Fires
pub mod Fits
pub mod Kept
