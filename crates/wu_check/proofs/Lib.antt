pub mod KeptLemmas
pub mod VersionLemmas
pub mod ExamineLemmas
pub mod VerdictLemmas
pub mod SizeLemmas
pub mod RowLemmas
pub mod QueueLemmas
pub mod LaterLemmas
mod KeyLemmas
