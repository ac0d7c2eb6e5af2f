-- What is promised of an answer of ./floor, in terms of the definitions' session.
pub mod Floors
