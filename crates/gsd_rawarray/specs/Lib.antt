-- RawArray files: what stands in one, what one says, which requests are refused, and what comes back.
pub mod File
pub mod Said
pub mod Requests
pub mod Heads
pub mod Back
pub mod Worked
