-- From upper ends that the code worked out to the right answers.
pub mod BoundLaws
pub mod DifferenceLaws
