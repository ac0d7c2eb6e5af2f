pub mod AskedRules
pub mod BookRules
pub mod Refusals
