-- Laws of the classes.
pub mod CompareLaws
pub mod ClassLaws
pub mod ClassOnce
