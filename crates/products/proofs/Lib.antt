-- Laws of the exponents of products.
pub mod ProductScale
