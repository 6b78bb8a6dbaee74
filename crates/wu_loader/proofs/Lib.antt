pub mod CellLemmas
pub mod RowLemmas
pub mod WholeLemmas
pub mod SelectLemmas
mod QuestionLemmas
pub mod LookLemmas
pub mod StandLemmas
pub mod DealLemmas
pub mod OrderLemmas
pub mod WorkLemmas
pub mod GrantLemmas
pub mod RunLemmas
pub mod InPlaceLemmas
pub mod ListedLemmas
pub mod ClassLemmas
mod FirstLemmas
pub mod TotalLemmas
