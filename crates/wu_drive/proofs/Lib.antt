mod AnswerLemmas
pub mod LifeLemmas
mod LineLemmas
pub mod MarkedAnswers
mod MarkedFaults
pub mod NamedAnswers
pub mod DrivingLemmas
mod CountingLemmas
mod DemonstrationLemmas
