mod ClassLemmas
mod FieldLemmas
mod InputLemmas
mod MomentLemmas
mod OnLiterals
mod PlainLemmas
mod ReadLemmas
mod RecordLemmas
pub mod RangeLemmas
mod RowLemmas
mod ScriptLemmas
mod TemplateLemmas
mod ToldLemmas
mod FaultLemmas
mod ShownLemmas
