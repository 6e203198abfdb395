-- Laws of the ends of two intervals that are compared.
pub mod EndsByKeys
pub mod EndTests
pub mod MirrorTests
