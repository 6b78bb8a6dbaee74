mod PlanLemmas
pub mod PassPlanLemmas
mod SumLemmas
pub mod BatchLemmas
pub mod AskLemmas
pub mod ExitLemmas
mod NamedLemmas
pub mod TouchedLemmas
mod FileLemmas
mod ImportPlans
mod CancelLemmas
pub mod PassLemmas
