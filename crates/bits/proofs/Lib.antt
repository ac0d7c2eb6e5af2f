pub mod WordLaws
pub mod MapLaws
