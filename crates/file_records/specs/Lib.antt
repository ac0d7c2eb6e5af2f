-- An event's record in a day file, as definitions.
pub mod Records
