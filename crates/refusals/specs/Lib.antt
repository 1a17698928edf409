pub mod Numbers
pub mod Rules
pub mod RuleLaws
pub mod Outcome
pub mod Counted
pub mod Ending
pub mod Answered
pub mod Testing
