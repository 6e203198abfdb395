-- What the contracts of bare intervals cite.
pub mod IntervalMeaning
pub mod Values
