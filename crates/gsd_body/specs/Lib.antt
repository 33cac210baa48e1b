-- What stands behind the head of an NChilada file.
pub mod Body
