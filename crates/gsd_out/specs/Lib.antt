-- What a call of the C interface hands out.
pub mod Out
