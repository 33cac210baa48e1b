-- Laws of parts that are handed out.
pub mod Parts
