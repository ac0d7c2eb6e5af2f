pub mod NextStop
pub mod AuctionHeld
pub mod Stopping
pub mod OtherLists
pub mod ClockLaws
