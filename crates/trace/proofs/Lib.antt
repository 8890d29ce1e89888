-- Laws that proofs cite.
pub mod RowLaws
pub mod RunLaws
