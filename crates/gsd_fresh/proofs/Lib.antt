-- What a fresh image's stores make in a row.
pub mod Fresh
