-- What the contracts of the operations on ends cite.
pub mod ExactFor
