pub mod Committing
pub mod Standing
pub mod Adopting
pub mod Leaving
pub mod Projects
pub mod Walks
pub mod Upgrading
