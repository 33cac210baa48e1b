-- What the planner goes by: the image, the sheet's rows, and the append's numbers in their order.
pub mod Image
pub mod Tests
pub mod RowPlaces
pub mod AskedRows
-- The plan that it makes matches the append: the blocks' sites, the order of entries, then all of it.
pub mod SitesMatch
pub mod Sited
pub mod EntryOrder
pub mod PlanMatch
