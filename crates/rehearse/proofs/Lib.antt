-- A refused line is the same refusal, whatever the desk.
pub mod Malformed
