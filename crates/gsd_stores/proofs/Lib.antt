-- The theorems about appends and what leads to them, in the order of reading.
-- Stores as such.
pub mod Stores
pub mod Phases
-- What a sheet and a plan are.
pub mod Texts
pub mod Sheet
pub mod Sorted
pub mod Rows
pub mod Plan
pub mod Valid
-- What an image shows, and how each step of an append changes it.
pub mod View
pub mod Blocks
pub mod Good
pub mod Clear
pub mod Move
pub mod NewNames
pub mod NewEntries
pub mod Whole
-- What is kept from image to image: over one append, over a run.
pub mod Keep
pub mod Shown
pub mod Complete
pub mod Moments
pub mod Runs
pub mod Demand3
-- Beside demand 3.
pub mod Readings
pub mod Limits
pub mod Places
pub mod Starts
pub mod Moving
-- A reader is a snapshot.
pub mod Lasting
pub mod Flows
pub mod Snapshot
pub mod Ids
