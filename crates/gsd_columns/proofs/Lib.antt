-- Laws of columns and their extremes.
pub mod Order
pub mod Extremes
pub mod Columns
