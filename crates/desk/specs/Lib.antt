-- What the desk promises of an answer, in terms of the definitions' session.
pub mod Desks
