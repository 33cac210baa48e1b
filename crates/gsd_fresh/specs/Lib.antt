-- The front of a fresh header.
pub mod Numbers
