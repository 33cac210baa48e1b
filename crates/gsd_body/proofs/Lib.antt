-- Laws of bodies.
pub mod Bodies
