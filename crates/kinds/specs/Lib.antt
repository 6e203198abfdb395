-- What the contracts of the kinds cite.
pub mod Allowed
