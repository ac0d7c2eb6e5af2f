-- Laws of numbers and records as bytes.
pub mod Digits
pub mod Parts
pub mod Put
pub mod Words
