pub mod Touched
pub mod Planning
pub mod Summing
pub mod PassPlans
