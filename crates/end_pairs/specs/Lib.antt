-- What the contracts of two ends cite.
pub mod EndPairMeaning
pub mod Keys
pub mod Mirror
pub mod Order
pub mod Zeros
