-- What the functions of this crate say of the orders at the front of a side.
pub mod Fronts
