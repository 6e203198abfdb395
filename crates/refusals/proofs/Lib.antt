-- From what was found of operands to the statement of the answer, and the one result of each outcome.
pub mod FoundLaws
pub mod Known
