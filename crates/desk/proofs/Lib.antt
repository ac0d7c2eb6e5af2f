-- The laws behind the desk's answers.
pub mod Lent
pub mod Answers
