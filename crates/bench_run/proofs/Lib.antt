-- Laws of replies, and of runs and their turns.
pub mod RepliesLaws
pub mod RunLaws
pub mod OneRun
pub mod WrongRuns
