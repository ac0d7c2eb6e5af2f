-- Laws behind the functions of this crate: sums over trades.
pub mod Tallies
