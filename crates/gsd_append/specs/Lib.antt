-- What a beginning and a turn answer. The append itself is defined in gsd_stores.
pub mod Turns
