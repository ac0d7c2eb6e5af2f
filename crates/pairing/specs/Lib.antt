-- What the pairing's laws say beside the definitions of the model.
pub mod Fills
pub mod Dealing
