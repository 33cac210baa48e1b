-- Big-endian numbers.
pub mod Xdr
