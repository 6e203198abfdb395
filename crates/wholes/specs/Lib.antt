-- What the contracts of whole numbers on patterns cite.
pub mod Enclosure
pub mod Made
