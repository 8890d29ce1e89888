pub mod Digests
pub mod Lines
