-- Where a sheet's rows lie, its tests one by one, and the columns of a plan.
pub mod Columns
pub mod Rows
