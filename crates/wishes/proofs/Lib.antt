-- The laws of ./floor's reader, and its session chunk by chunk.
pub mod Asking
pub mod Sessions
