-- Laws that callers' proofs cite: of the depth, of places, of what governs a transition, and of registers free of number 5.
pub mod DepthLaws
pub mod Places
pub mod Edges
pub mod GoodLaws
