-- Laws behind the reader's code.
pub mod Fitting
pub mod NextNames
pub mod Queries
pub mod Opening
pub mod Inside
