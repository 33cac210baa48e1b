-- What a search for a zero byte answers, and the sizes of floats.
pub mod Zeros
pub mod Patterns
