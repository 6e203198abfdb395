-- Laws of interchange bytes.
pub mod RoundTrip
pub mod OneSpelling
pub mod OneAnswer
