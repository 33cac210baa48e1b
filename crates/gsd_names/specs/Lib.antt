-- The name list as code keeps it, and prints of its names.
pub mod NameLists
pub mod NamePrints
