-- The proofs of what is demanded of a day over all its lists.
pub mod Outcomes
pub mod Refusals
pub mod NeverUnsound
pub mod MainThrough
pub mod MainEvents
pub mod MovedMain
pub mod OtherThrough
pub mod BlockEvents
pub mod Conserving
pub mod FixedEvents
pub mod Steps
pub mod AtClose
pub mod LongLists
pub mod Keepings
pub mod Runs
pub mod RunsOpened
pub mod MainMoves
