-- Laws of operation numbers.
pub mod AskedLaws
