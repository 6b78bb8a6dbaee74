pub mod StandingLemmas
pub mod AdoptingLemmas
pub mod WalkLemmas
pub mod SessionLemmas
pub mod UpgradeLemmas
pub mod PlanningLemmas
