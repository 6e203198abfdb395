-- What the contracts of classification cite.
pub mod ClassMeaning
