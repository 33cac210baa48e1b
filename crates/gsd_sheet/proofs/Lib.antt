-- Laws of the sheet's tests and of its rows, and of columns.
pub mod Columns
pub mod Rows
