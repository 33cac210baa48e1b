-- The fingerprint of a text.
pub mod Fingerprint
