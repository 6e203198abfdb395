-- Laws of the keys of ends.
pub mod EndKeys
pub mod OneAnswer
