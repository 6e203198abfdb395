-- Brackets of exact values, which every rounding ends in, and magnitudes taken apart and packed.
pub mod Bracket
pub mod Digits
pub mod Magnitude
pub mod Packing
