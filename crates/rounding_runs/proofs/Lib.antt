-- Laws of operations by their case, of cases by themselves, and of counts.
pub mod OperationCases
pub mod CaseLaws
pub mod FirstLaws
pub mod Counting
