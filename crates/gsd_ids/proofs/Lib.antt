-- Laws of ids and of the order, as the code finds them.
pub mod RowIds
pub mod Sorting
