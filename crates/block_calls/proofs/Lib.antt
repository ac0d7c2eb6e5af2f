-- The laws behind the call of a declaration.
pub mod Refusing
pub mod Declaring
pub mod Determined
