-- What the contracts of a request's operands cite.
pub mod OperandMeaning
