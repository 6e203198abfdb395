-- What the exported functions take and answer.
pub mod Columns
