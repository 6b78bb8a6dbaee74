use Rattle.wu_cli.proofs.TextLemmas.{told_as}
use Rattle.wu_cli.proofs.texts.line_of_fault.Goals as goal

pub returns-in-BadTemplate : goal.returns-in-BadTemplate
returns-in-BadTemplate g c = told_as _ _ c.worded.result _ _ c.in-BadTemplate.is (rw c.word.ensures at c.worded.ensures)

pub returns-in-NameUsed : goal.returns-in-NameUsed
returns-in-NameUsed g c = told_as _ _ c.write_line-in-NameUsed.result _ _ c.in-NameUsed.is c.write_line-in-NameUsed.ensures

pub returns-in-WorkunitUsed : goal.returns-in-WorkunitUsed
returns-in-WorkunitUsed g c = told_as _ _ c.numbered.result _ _ c.in-WorkunitUsed.is (rw c.from-in-WorkunitUsed.ensures at c.numbered.ensures)

pub returns-in-BadMoment : goal.returns-in-BadMoment
returns-in-BadMoment g c = told_as _ _ c.write_line-in-BadMoment.result _ _ c.in-BadMoment.is c.write_line-in-BadMoment.ensures

pub returns-in-BadLimit : goal.returns-in-BadLimit
returns-in-BadLimit g c = told_as _ _ c.write_line-in-BadLimit.result _ _ c.in-BadLimit.is c.write_line-in-BadLimit.ensures

pub returns-in-UnknownWorkunit : goal.returns-in-UnknownWorkunit
returns-in-UnknownWorkunit g c = told_as _ _ c.write_line-in-UnknownWorkunit.result _ _ c.in-UnknownWorkunit.is c.write_line-in-UnknownWorkunit.ensures

pub returns-in-NotOpenToCancel : goal.returns-in-NotOpenToCancel
returns-in-NotOpenToCancel g c = told_as _ _ c.write_line-in-NotOpenToCancel.result _ _ c.in-NotOpenToCancel.is c.write_line-in-NotOpenToCancel.ensures

pub returns-in-OldSchema : goal.returns-in-OldSchema
returns-in-OldSchema g c = told_as _ _ c.numbered-in-OldSchema.result _ _ c.in-OldSchema.is c.numbered-in-OldSchema.ensures
