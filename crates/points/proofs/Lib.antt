-- The true bounds of the results of each operation, and which of them are numbers of the format.
pub mod SumLaws
pub mod WholeLaws
pub mod FloorLaws
pub mod NearestLaws
pub mod ZeroLaws
pub mod BinaryLaws
pub mod PointLaws
pub mod Reached
pub mod EndLaws
pub mod Images
pub mod Magnitudes
pub mod Extremes
pub mod Unions
pub mod Naturals
pub mod Exactly
pub mod Answers
