-- Laws of decorations.
pub mod AgreeLaws
pub mod DecorationLaws
pub mod Codes
