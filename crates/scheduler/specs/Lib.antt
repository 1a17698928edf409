pub mod State
pub mod Round
pub mod RoundLaws
pub mod Answers
pub mod Parts
pub mod StateLaws
pub mod Play
