-- Scripts and day files: which lines are stored, how an event is written as a line, and what is promised of both.
pub mod Scripts
pub mod Promises
