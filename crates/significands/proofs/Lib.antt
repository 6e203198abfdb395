-- Laws of doubles, of brackets in proportion, and of signs.
pub mod DoubleLaws
pub mod Proportion
pub mod Signs
