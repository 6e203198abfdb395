-- What the roundings of products and of quotients say of their operands and answers.
pub mod Normal
pub mod SignedExact
