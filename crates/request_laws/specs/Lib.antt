-- What the laws of this crate and the bench program speak of besides the meaning.
pub mod Calls
pub mod Chunk
pub mod Reads
