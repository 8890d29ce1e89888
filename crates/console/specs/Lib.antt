pub mod Complaints
pub mod Words
