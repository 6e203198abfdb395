-- What the alignment of two magnitudes promises.
pub mod Alignment
