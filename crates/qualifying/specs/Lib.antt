pub mod Changes
pub mod Filters
pub mod Outcomes
pub mod Laws
