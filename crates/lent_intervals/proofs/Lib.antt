-- Laws of reading and writing intervals in lent bytes.
pub mod ReadLaws
pub mod SliceLaws
