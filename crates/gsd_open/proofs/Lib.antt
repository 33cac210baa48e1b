-- Laws that the proofs of opening share, and of the survey for those that answer from it.
pub mod Blocks
pub mod LastFrames
pub mod EntryTests
pub mod Surveys
