-- What the elements of a chunk are read by.
pub mod Held
