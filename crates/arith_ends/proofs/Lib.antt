-- Ends of patterns, combined and rounded upward.
pub mod EndLaws
pub mod GreaterLaws
