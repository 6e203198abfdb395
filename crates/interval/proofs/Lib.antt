-- From judgements to statements, and the one answer of each.
pub mod Codes
pub mod Once
pub mod OneAnswer
