-- Truth values that answer a question.
pub mod Answers
