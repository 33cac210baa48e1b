-- What the functions of a reader go by on the way to its answers.
pub mod Names
pub mod Queries
pub mod Sizes
