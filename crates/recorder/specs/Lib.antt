pub mod Events
pub mod Decisions
pub mod Entries
pub mod Steps
pub mod Runs
