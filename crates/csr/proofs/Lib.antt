-- When each refusal is given.
pub mod Refusals
