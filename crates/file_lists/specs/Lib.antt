-- The records of a day file as a list, as definitions, and what is promised of it.
pub mod Lists
pub mod Promises
