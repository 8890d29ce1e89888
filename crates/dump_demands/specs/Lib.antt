pub mod Fits
pub mod Promise
