pub mod Turns
pub mod TurnLaws
pub mod Marks
