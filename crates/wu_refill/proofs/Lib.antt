mod AddingLemmas
mod FilledLemmas
mod FoundLemmas
pub mod RefillLemmas
