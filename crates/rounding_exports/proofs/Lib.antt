-- Laws of calls on columns.
pub mod ColumnLaws
