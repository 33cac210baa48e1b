-- Laws that the proofs of reading share.
pub mod Answers
pub mod Lookups
