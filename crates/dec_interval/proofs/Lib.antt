-- The statements of decorated intervals, and the one answer of each.
pub mod IntervalPartLaws
pub mod Codes
pub mod Once
pub mod OneAnswer
