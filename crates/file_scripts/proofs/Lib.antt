-- Laws of scripts and day files.
pub mod Printed
pub mod Lines
pub mod Sessions
