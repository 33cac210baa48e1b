-- Laws of RawArray files, and what comes back.
pub mod Division
pub mod Types
pub mod Said
pub mod Requests
pub mod Sheets
pub mod Files
pub mod Rows
pub mod Back
pub mod Trailing
pub mod Worked
