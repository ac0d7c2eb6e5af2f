-- What the auction's functions say beside the definitions of the model.
pub mod Interest
pub mod Spans
pub mod Tiers
pub mod Walks
pub mod Rule
pub mod Fitting
pub mod Fixings
