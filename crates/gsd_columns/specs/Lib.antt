-- Columns of floats, their extremes, and a scan for them.
pub mod Columns
pub mod Scans
pub mod Types
