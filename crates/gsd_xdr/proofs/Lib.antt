-- Laws of big-endian numbers.
pub mod Xdr
