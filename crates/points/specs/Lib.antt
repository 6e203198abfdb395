-- What is said of point functions and of the ends of sets on the way to the true bounds of results.
pub mod Functions
pub mod Ends
