-- The proofs of the calls by what is asked of a day.
pub mod ByKind
pub mod Determined
