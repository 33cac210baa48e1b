-- A plan that matches an append makes its stores, and all its extents are good.
pub mod Octets
pub mod ExtentWords
pub mod Makes
pub mod Blocks
pub mod Moves
pub mod DataExtents
pub mod NameExtents
pub mod EntryExtents
pub mod StoreList
pub mod GoodKinds
pub mod GoodExtents
