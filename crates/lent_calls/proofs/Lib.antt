-- Laws of bytes at their places.
pub mod StateByteLaws
