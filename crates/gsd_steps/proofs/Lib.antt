-- Laws of a plan's list of extents.
pub mod Steps
