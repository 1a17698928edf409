pub mod Checked
pub mod GfLaws
pub mod ProductByU
pub mod Shift
pub mod Test
