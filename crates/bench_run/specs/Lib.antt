-- What the bench program's contracts cite besides the statement of a chunk: the limit, a whole run, and its turns.
pub mod Limit
pub mod Run
pub mod Turn
