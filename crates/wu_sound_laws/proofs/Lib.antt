pub mod NamedHosts
pub mod Consequences
pub mod TotalLemmas
