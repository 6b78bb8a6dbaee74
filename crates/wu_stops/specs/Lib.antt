pub mod Beginning
pub mod Sessions
pub mod Closing
pub mod Leftovers
pub mod Stopping
