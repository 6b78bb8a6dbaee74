pub mod Reopening
pub mod Lives
pub mod Soundness
pub mod Runs
