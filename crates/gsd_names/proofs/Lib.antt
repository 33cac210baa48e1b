-- Laws of the name list: found in one pass by the version; as code keeps it, for its own functions and for those that answer
-- from one; and of prints.
pub mod NamePasses
pub mod NameLists
pub mod NamePrints
