-- The two calls that trade as one, and what it leaves of the bytes of a book and a trade list.
pub mod Trading
