-- What the laws of this crate speak of besides the meaning: linear orders and their keys.
pub mod Order
