-- The tests behind the table, and what it shows.
pub mod Tests
pub mod PointTests
pub mod RowTests
pub mod StateTests
pub mod QuantifiedText
pub mod DecoratedTests
pub mod ExactTests
pub mod ComparisonTests
pub mod TableLaws
pub mod Examples
pub mod WrongVersions
pub mod WrongFlags
pub mod WrongComparisons
