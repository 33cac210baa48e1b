-- What the words of a state are.
pub mod States
