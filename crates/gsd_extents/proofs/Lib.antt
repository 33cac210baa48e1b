-- Laws of extents, their tasks and their stores.
pub mod Words
pub mod Tasks
pub mod Extents
pub mod OneStore
pub mod Kept
