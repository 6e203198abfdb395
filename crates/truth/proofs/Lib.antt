-- Laws of truth values that answer a question.
pub mod AnswerLaws
