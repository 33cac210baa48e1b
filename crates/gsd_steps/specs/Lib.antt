-- The numbers of a plan, and what it stores, extent by extent.
pub mod Numbers
pub mod Steps
