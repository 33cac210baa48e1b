-- Where an append's parts go.
pub mod Places
pub mod Sites
