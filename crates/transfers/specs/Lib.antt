pub mod Counts
pub mod Records
pub mod Transfers
pub mod Laws
