-- Cases that are proved of the definitions.
pub mod Quantified
pub mod Rows
pub mod Table
pub mod ExactTable
pub mod ComparisonTable
