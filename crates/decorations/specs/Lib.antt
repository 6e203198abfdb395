-- What the contracts of decorations cite.
pub mod DecorationMeaning
pub mod DecorationBytes
