-- Laws of long division, and of the exponents of quotients.
pub mod Digits
pub mod QuotientScale
