-- ./floor as a program that answers line by line.
pub mod Wishes
