-- The next store is each time the next of the append's list.
pub mod NextStore
-- What a turn does with a state,
pub mod Turns
-- and calls: a beginning with its turns is one append, and the joined call is a beginning and one turn.
pub mod Calls
-- Demand 3 about the append.
pub mod Demand3
-- What moving the index costs.
pub mod Moving
