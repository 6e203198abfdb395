-- Laws of a run's turns.
pub mod OnwardLaws
