-- What the test of a day says beside the definition: the map of numbers used, and a sound day as one record of facts; and
-- what a call may use after it.
pub mod Numbers
pub mod SoundDay
pub mod Ready
