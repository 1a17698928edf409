pub mod Answers
pub mod Decoding
