-- What the contracts of operations that report exactness cite.
pub mod ExactIntervals
