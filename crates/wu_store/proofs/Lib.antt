pub mod InsertTexts
pub mod OneOrder
pub mod SelectTexts
pub mod EqualLemmas
pub mod OnceLemmas
pub mod WorldOnce
pub mod ReadAnswers
pub mod AskLemmas
pub mod GivenLemmas
pub mod OrderAnswers
pub mod LastLemmas
pub mod KeyedLemmas
pub mod PlacedLemmas
pub mod ListedLemmas
pub mod SumLemmas
pub mod HostNames
pub mod GrantSums
pub mod CreditEffect
pub mod StandsWith
pub mod SameWorld
pub mod ChangeLemmas
pub mod ClassEffect
pub mod HostClassEffect
pub mod ClassAnswers
pub mod QueueLemmas
pub mod QueueAnswers
pub mod UpdateEffect
pub mod SetEffect
pub mod ProjectEffect
mod SetLemmas
mod SetInstance
mod ReplaceLemmas
mod SpareLemmas
pub mod DeleteTexts
pub mod FallLemmas
pub mod CascadeEffect
pub mod DeleteEffect
pub mod CutLemmas
pub mod InstanceLemmas
pub mod InstanceAnswers
pub mod UpsertTexts
pub mod UpsertEffect
pub mod NameKey
pub mod InPlaceLemmas
pub mod HostEffect
pub mod LoadLemmas
pub mod AboveLemmas
pub mod MarkedLemmas
pub mod QueuedLemmas
pub mod ChangingLemmas
pub mod DueLemmas
mod VerdictLemmas
mod ListingLemmas
