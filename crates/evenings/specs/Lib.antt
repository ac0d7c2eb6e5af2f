-- What a move after the close has reached in memory, and how many trades it will have.
pub mod Counts
pub mod Stage
