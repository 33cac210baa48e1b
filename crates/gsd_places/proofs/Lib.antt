-- Laws of places found one after the other, and of doubling.
pub mod Places
pub mod Growing
