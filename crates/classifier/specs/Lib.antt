pub mod Instructions
pub mod Transfers
pub mod Promise
pub mod Vectors
pub mod Exports
pub mod Decision
pub mod Tables
