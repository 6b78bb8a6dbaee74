mod DayLemmas
mod HexLemmas
mod LineLemmas
mod LookLemmas
pub mod MarkLemmas
pub mod MarkedSkips
pub mod MarkedLines
mod MomentLemmas
mod ViewLemmas
pub mod WritingLemmas
mod WalkedLemmas
mod StatusLemmas
mod SkipLemmas
