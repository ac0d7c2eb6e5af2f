-- Who is confirmed with whom.
pub mod Partners
pub mod Places
