-- What the contracts of decorated intervals cite.
pub mod DecIntervalMeaning
pub mod Values
