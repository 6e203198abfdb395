-- Laws of the bytes of ends.
pub mod Spelled
pub mod CopyLaws
pub mod ByteLaws
pub mod EightByteLaws
pub mod DigitLaws
