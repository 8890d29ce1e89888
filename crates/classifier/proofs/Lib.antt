-- Specimens of words, the table of transfer types computed of them, what the switch adds, looks into a filled table, what those above the classifier
-- rely on, published words, and runs over slices.
pub mod Specimens
pub mod Sorted
pub mod Switch
pub mod Looks
pub mod Promise
pub mod Vectors
pub mod Filled
