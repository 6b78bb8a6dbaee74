pub mod Texts
pub mod Writing
pub mod Marks
pub mod Driving
pub mod Counting
pub mod Running
pub mod Demonstration
