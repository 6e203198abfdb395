-- What the contracts of functions on intervals cite.
pub mod Rising
pub mod Jumping
