-- What the contracts of intervals in lent bytes cite.
pub mod Reading
