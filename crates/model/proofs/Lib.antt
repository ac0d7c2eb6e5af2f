-- Laws of the definitions that more than one crate cites, and the definitions tried on examples.
pub mod Bools
pub mod Folds
pub mod Rules
pub mod Seconds
pub mod Evening
pub mod HaltEnds
pub mod SameScreens
pub mod Examples
pub mod TriedLines
pub mod TriedSound
pub mod TriedCalls
pub mod TriedScreen
pub mod TriedHalts
pub mod TriedFixed
pub mod TriedBlocks
