pub mod Readings
pub mod Writes
pub mod Accesses
pub mod Laws
