-- What the functions of opening answer on the way to the survey, and what the survey says.
pub mod Index
pub mod Surveys
