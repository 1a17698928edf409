pub mod Checking
pub mod Counting
pub mod Ending
pub mod Parts
pub mod RideLaws
pub mod Riding
pub mod Sending
pub mod StepLaws
