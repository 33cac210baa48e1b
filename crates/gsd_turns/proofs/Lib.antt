-- Laws of how many stores the extents of a plan make, and of turns.
pub mod Count
pub mod Turns
pub mod Places
