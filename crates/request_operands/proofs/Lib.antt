-- Laws of operands that were read of sound bytes.
pub mod OperandLaws
