-- The laws behind the functions on declarations that are held, and those that callers cite.
pub mod Walks
pub mod Sizes
pub mod Holding
pub mod Formed
pub mod Earliest
pub mod Closing
