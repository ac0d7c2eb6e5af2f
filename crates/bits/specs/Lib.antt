-- What the functions on bits say: the bits of one word, and a map of bits over a list of words.
pub mod Words
pub mod Maps
