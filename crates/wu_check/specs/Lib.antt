pub mod Checking
pub mod Queues
pub mod Versions
pub mod Examining
pub mod Findings
pub mod Verdicts
