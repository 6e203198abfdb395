-- Laws of the classes of divisors.
pub mod AllowedLaws
