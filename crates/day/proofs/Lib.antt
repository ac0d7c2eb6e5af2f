pub mod AuctionLaws
pub mod Determined
pub mod AllDetermined
pub mod Openings
pub mod Alls
