-- From what the shared steps find to the statements of operations.
pub mod TwoLaws
pub mod SortedLaws
