pub mod BeginningLemmas
pub mod ClosingLemmas
mod LeftoverLemmas
pub mod StoppingLemmas
