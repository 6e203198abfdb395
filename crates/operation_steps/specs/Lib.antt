-- What the contracts of shared steps cite.
pub mod Sorted
