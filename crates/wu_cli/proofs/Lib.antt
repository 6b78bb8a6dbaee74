mod TextLemmas
mod ExportLemmas
pub mod ActionLemmas
mod TryLemmas
pub mod ScriptLemmas
mod RepeatLemmas
mod RowLineLemmas
pub mod PrintLemmas
pub mod TellingLemmas
pub mod WorkLemmas
pub mod HearingLemmas
pub mod SessionLemmas
pub mod AcceptLemmas
mod LintLemmas
mod OutputLemmas
pub mod TroubleLemmas
