-- What the functions of this crate say beside the definitions of the model.
pub mod Ranges
pub mod Parts
