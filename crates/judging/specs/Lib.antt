-- What the judge knows by day and price, and the slate on which its code keeps what is still to be filled.
pub mod Prices
pub mod Slates
