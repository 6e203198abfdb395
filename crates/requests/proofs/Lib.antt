-- From operands that were read to what a request leaves.
pub mod AnswerLaws
