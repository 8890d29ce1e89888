-- Laws that callers' proofs cite: of fields and masks, of conditionals whose test is known, and cases of a number.
pub mod Laws
pub mod Cases
