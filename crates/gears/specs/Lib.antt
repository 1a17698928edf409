pub mod Allowed
pub mod Messages
pub mod RowLaws
pub mod Rows
