-- The tables of true ends, proved.
pub mod Bounds
pub mod Scaling
pub mod Products
pub mod KindLaws
pub mod ClassLaws
pub mod ProductTable
pub mod Reciprocals
pub mod QuotientTable
pub mod Divisors
pub mod TrueBounds
pub mod UpEnd
pub mod Rounding
pub mod Theorem3
pub mod ExactBounds
pub mod ExactTheorem3
