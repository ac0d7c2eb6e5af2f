-- What a call may rely on, and confirmations place by place.
pub mod Ready
pub mod Confirming
