-- One state of overlap, one decoration, one verdict on an operand, one outcome of a statement.
pub mod StateLaws
pub mod ExtendedOrder
pub mod KeyLaws
pub mod DecorationOrder
pub mod DecorationLaws
pub mod VerdictLaws
pub mod ReadingLaws
pub mod Decisions
pub mod Verdicts
pub mod OverlapLaws
pub mod DecoratedLaws
