-- What a request that passes its tests asks for.
pub mod Asked
