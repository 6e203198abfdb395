-- True upper ends of the arithmetic operations, worked out by classes.
pub mod Ends
pub mod Corners
pub mod Tables
pub mod Answer
pub mod Told
