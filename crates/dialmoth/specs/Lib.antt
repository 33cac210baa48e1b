-- What the C interface hands out.
pub mod Out
