-- How many stores of a plan's extents a turn makes.
pub mod Turns
