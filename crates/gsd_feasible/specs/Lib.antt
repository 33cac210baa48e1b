-- Whether a plan can be carried out.
pub mod Feasible
