-- Claims as bytes.
pub mod Claims
