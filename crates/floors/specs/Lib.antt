-- The program ./floor, as definitions: what a line asks for, and the session from the bytes that it reads to those that it writes.
pub mod Wishes
pub mod Floor
pub mod Beside
