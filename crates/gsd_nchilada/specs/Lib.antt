-- NChilada files: what stands in one, and which requests are refused.
pub mod File
pub mod Request
pub mod Ready
pub mod Elements
pub mod Worked
