-- Laws of codecs.
pub mod RecodeLaws
