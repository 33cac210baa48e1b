-- What the planner goes by, and what it answers.
pub mod Planning
