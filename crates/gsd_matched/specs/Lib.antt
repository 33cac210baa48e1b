-- When a plan matches an append.
pub mod Matches
