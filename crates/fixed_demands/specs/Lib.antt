-- Fixed-price trading and a move over all lists, stated over the model's definitions. Each statement can be read without its proof.
pub mod FixedDay
pub mod Moving
pub mod KeepingFixed
pub mod FixedPrice
pub mod SeparateFixed
