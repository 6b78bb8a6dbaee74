use Rattle.std.proofs.Common.{◌∙◌, refl}
use Rattle.wu_report.proofs.LineLemmas.{workunit_pieces-are}
use Rattle.wu_report.proofs.lines.WorkunitLinePrinted.write.Goals as goal

pub returns : goal.returns
returns g c =
    rw (workunit_pieces-are c.args.self.now _ _ _ _ _ _ _ _ _ _ _ _ _
    c.as_str.ensures refl (c.from.ensures ∙ c.min_quorum.ensures.value) (c.from-2.ensures ∙ c.target_nresults.ensures.value)
    (c.from-3.ensures ∙ c.max_error_results.ensures.value) (c.from-4.ensures ∙ c.max_total_results.ensures.value) (c.from-5.ensures ∙ c.max_success_results.ensures.value)
    (c.from-6.ensures ∙ c.delay_bound.ensures.value) (c.from-7.ensures ∙ c.credit.ensures.value) (c.from-8.ensures ∙ c.code.ensures) c.word.ensures c.word-2.ensures c.from-9.ensures)
    c.write_pieces.ensures
