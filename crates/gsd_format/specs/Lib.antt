-- What every call answers on any image, as definitions that run in the checker. An image is the list of its bytes.
-- Each file is a chapter of the format; read them in this order.
pub mod Bytes
pub mod Ascii
pub mod Refusals
pub mod Header
pub mod Types
pub mod Names
pub mod Entries
pub mod Opening
pub mod Lookup
pub mod Search
pub mod Elements
pub mod Readers
pub mod Create
pub mod Listing
pub mod Answers
pub mod Calls
pub mod Probes
pub mod Cases
