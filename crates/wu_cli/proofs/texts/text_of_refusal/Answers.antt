use Rattle.std.proofs.Common.{subst, sym}
use Rattle.wu_arguments.specs.declared.refusal.Refusal.{Refusal}
use Rattle.wu_report.specs.Writing.{WritesTo}
use Rattle.wu_cli.specs.Endings.{refusal_text}
use Rattle.wu_cli.proofs.texts.text_of_refusal.Goals as goal

pub returns-in-Try : goal.returns-in-Try
returns-in-Try g c =
    subst (λ (why : Refusal). WritesTo g.W.Write.contents c.args.out.now c.write_line-in-Try.new.out (refusal_text why) c.write_line-in-Try.result) (sym c.in-Try.is)
    c.write_line-in-Try.ensures

pub returns-in-AfterExport : goal.returns-in-AfterExport
returns-in-AfterExport g c =
    subst (λ (why : Refusal). WritesTo g.W.Write.contents c.args.out.now c.write_line-in-AfterExport.new.out (refusal_text why) c.write_line-in-AfterExport.result) (sym c.in-AfterExport.is)
    c.write_line-in-AfterExport.ensures
