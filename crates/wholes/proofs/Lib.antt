-- Laws of whole numbers next to a magnitude.
pub mod DigitLaws
pub mod EnclosureLaws
pub mod PickLaws
pub mod SplitLaws
pub mod MagnitudeLaws
pub mod SignedLaws
