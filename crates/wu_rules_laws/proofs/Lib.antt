pub mod Alike
pub mod Awake
mod Becoming
mod Changed
mod Checking
pub mod Cancels
mod Choosing
mod Deciding
mod Ending
pub mod Following
mod Granted
mod GivingUp
mod Granting
mod Hosted
pub mod Judged
mod Kept
pub mod Making
mod Naming
mod Planned
mod Progress
mod Refused
pub mod Rewriting
mod Settled
pub mod Spent
pub mod Told
mod Unagreed
mod Unsent
pub mod Verdicts
