-- The laws behind a declaration's refusals and answers.
pub mod Asking
pub mod Answers
