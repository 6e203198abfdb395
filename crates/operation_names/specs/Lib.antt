-- What the contracts of names and numbers cite.
pub mod Names
pub mod Numbers
