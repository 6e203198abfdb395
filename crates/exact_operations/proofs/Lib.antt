-- Laws of negation.
pub mod NegationLaws
