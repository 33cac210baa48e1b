-- Laws that the proofs of the search share.
pub mod Progress
pub mod OneProbe
