-- Laws of comparisons.
pub mod AscendingLaws
pub mod MemberEnds
pub mod MemberSets
pub mod Consequences
pub mod Window
pub mod NaIComparisons
pub mod OneComparison
