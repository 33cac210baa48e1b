-- Laws of std's methods on bytes and of the search for a zero byte, and of sums of patterns, for the crates above too.
pub mod Methods
pub mod Zeros
pub mod Signs
