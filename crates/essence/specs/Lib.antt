pub mod Choices
pub mod Essence
pub mod Affine
pub mod Answers
pub mod Shape
