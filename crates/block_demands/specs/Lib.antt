-- What is proved of block trades, stated over the model's definitions. Each statement can be read without its proof.
pub mod Held
pub mod Keeping
pub mod Confirming
pub mod Separate
