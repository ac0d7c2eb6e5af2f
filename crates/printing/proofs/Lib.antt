-- The laws behind the lines that are printed, and those that callers cite.
pub mod Printed
pub mod Replied
