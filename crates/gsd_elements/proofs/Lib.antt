-- Laws that the proofs of elements share.
pub mod Signed
pub mod Elements
