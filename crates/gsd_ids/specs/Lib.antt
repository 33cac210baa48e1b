-- The ids of a sheet's rows, and numbers in order.
pub mod Order
pub mod RowIds
