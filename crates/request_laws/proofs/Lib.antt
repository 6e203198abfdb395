-- Laws of requests and codecs.
pub mod OutcomeLaws
pub mod OneOutcome
pub mod SmallLaws
pub mod WrongCalls
pub mod Examples
pub mod WrongRequests
pub mod SecondOperand
pub mod PartLaws
pub mod ChunkLaws
pub mod ReadLaws
pub mod RequestedLaws
