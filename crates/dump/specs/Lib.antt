pub mod Offsets
pub mod Checks
