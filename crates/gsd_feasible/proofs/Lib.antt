-- Laws of the test whether a plan can be carried out.
pub mod AllBelow
pub mod Plans
