-- Laws of the fingerprint.
pub mod Lanes
