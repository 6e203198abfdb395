-- What the bench program's turns keep.
pub mod Runs
