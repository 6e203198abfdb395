-- Laws of rising functions on intervals and of their jumps.
pub mod RisingLaws
pub mod EndComparison
pub mod JumpLaws
