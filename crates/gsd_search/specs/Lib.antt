-- What the search is given and what it probes.
pub mod Queries
