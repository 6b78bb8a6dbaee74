mod JoinLemmas
mod JoinTexts
mod CountQuestions
mod LineLemmas
mod ViewAnswers
mod CountLemmas
mod CountedAnswers
mod JoinAnswers
mod ListLemmas
pub mod ImportLemmas
mod ListAnswers
mod ListLines
mod WalkLemmas
mod CountWalks
pub mod WaitingLemmas
mod TallyLemmas
mod FailureLemmas
pub mod NamedHosts
mod NamedLemmas
