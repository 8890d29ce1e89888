-- What holds of register accesses.
pub mod Laws
