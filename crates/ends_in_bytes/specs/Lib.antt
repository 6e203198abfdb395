-- What the contracts of end bytes cite.
pub mod ByteOrderMeaning
