-- The laws behind the functions of continuous trading, and those that callers cite.
pub mod Prices
pub mod Cuts
pub mod Partners
pub mod Tallies
pub mod Sweeps
pub mod Entries
pub mod Trades
pub mod Fills
pub mod Leftovers
pub mod Fronts
pub mod EntryLaws
pub mod AfterEntry
pub mod EntryKept
