-- What a bit pattern of a binary format is worth, and what it means to round upward to the format.
pub mod Format
pub mod Value
pub mod Rounding
