-- Laws of chosen ends, and of answers whose ends are exact.
pub mod EndOrder
pub mod TrueEnds
pub mod SetOperations
