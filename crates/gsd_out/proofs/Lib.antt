-- What the proofs of the out arrays lean on.
pub mod Signed
pub mod Refusals
