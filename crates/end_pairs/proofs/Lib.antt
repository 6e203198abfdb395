-- Laws of two ends: their order, kinds, zeros and signs, and the sets that they stand for.
pub mod KeyLaws
pub mod TestLaws
pub mod ZeroLaws
pub mod Shapes
pub mod MirrorLaws
pub mod EmptyLaws
pub mod ExactHull
