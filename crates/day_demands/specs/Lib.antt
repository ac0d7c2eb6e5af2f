-- What is demanded of a day over all its lists, stated over the model's definitions. Each statement can be read without its proof.
pub mod Refusing
pub mod Keeping
pub mod Running
pub mod MainMove
