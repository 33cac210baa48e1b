-- Laws of NChilada files, and what stands in one.
pub mod Files
pub mod Requests
pub mod Finite
pub mod Elements
pub mod Worked
