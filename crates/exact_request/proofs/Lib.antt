-- Laws of flags in lent bytes, and of numbers that are refused.
pub mod FlagByteLaws
pub mod AskedLaws
