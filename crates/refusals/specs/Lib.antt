-- What the contracts of calls that can be refused cite.
pub mod RefusalMeaning
