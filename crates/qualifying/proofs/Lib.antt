-- Laws that callers' proofs cite.
pub mod Laws
