-- A declaration's rules in the groups in which the code goes through them, and what it comes to.
pub mod Rules
pub mod Entries
