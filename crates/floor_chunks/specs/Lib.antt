-- How far a chunk of ./floor is answered.
pub mod Points
