-- The instruction at an address, sums that wrap, where words go, the verdict on an entry, entries one after the other, and what all that promises.
pub mod Fetching
pub mod Reaching
pub mod Going
pub mod Verdicts
pub mod Scans
pub mod Promise
