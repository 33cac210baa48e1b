-- An append as a list of stores, and what a run of appends must keep. Read in this order.
pub mod Sheet
pub mod Stores
pub mod View
pub mod Plan
pub mod Steps
pub mod Append
pub mod Runs
pub mod Demand3
pub mod Readings
pub mod Starts
pub mod Moving
