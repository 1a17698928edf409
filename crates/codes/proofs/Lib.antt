pub mod Agreement
pub mod Checked
pub mod SameLaws
