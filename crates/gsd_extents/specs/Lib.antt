-- What extents of stores are, and what they do to an image.
pub mod Extents
pub mod Exec
