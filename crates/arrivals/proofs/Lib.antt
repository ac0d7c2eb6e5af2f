-- The laws of places in order of arrival.
pub mod Lines
pub mod Places
pub mod Passing
