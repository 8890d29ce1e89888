-- Laws that callers' proofs cite: of text on a page, and of numbers as digits.
pub mod Pages
pub mod Digits
