pub mod Laws
pub mod Consistent
pub mod Marking
pub mod Transitions
pub mod Rows
