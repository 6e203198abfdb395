-- What the laws of this crate speak of besides the meaning: orders of fractions, and ends that stand in one.
pub mod Ends
