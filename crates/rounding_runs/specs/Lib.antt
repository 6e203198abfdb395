-- What the roundings take and answer, by the operation, and what a stored case says.
pub mod Operations
pub mod Words
pub mod Cases
