-- The worked cases of the paper.
pub mod Table
