-- Laws of absolute values, and of the greater and the lesser of two intervals.
pub mod Absolute
pub mod Classes
pub mod Extremes
