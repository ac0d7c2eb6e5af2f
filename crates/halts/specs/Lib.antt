pub mod Priced
pub mod Clauses
