-- The laws of the calls that make no trade, in rows.
pub mod Untraded
