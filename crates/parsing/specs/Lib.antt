-- What reading a line says, in terms of the definitions' lines.
pub mod Words
