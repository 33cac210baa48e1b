-- The proofs of the worked cases.
pub mod Starts
pub mod Moving
pub mod Readers
pub mod Table
