-- Laws of aligned magnitudes, of their sum and of their difference, and of the signs of a sum.
pub mod AlignLaws
pub mod CombineLaws
pub mod SignedSums
