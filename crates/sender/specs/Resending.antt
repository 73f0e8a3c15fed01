pub mod Answers
pub mod Handler
pub mod Laws
pub mod Spaced
