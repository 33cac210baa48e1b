-- Laws of a state's words,
pub mod States
-- that an append carries out its plan,
pub mod Appends
-- and what a beginning gives.
pub mod Begins
