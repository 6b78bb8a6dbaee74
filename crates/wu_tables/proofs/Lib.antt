mod MapLemmas
mod TermLemmas
mod FoundLemmas
mod AgainstLemmas
mod OrderLemmas
mod OthersLemmas
pub mod UpgradeLemmas
