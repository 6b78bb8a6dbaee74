use Rattle.std.proofs.Common.{rules, Err, List, Ok, Result, map, subst, sym, ◌++◌, ◌∙◌, ◌≡◌, ◌≢◌}
use Rattle.std.specs.Prelude.{IfErr, IfOk}
use Rattle.wu_core.specs.declared.fault.Fault.{Fault}
use Rattle.wu_core.specs.declared.fault.Fault.TheVariants.{Memory, NotAProject}
use Rattle.wu_schema.specs.Reading.{IsReadFault}
use Rattle.wu_store.proofs.AskLemmas.{fault_read, never_broken, reads_also, reads_both, reads_over, reads_then_handed}
use Rattle.wu_views.specs.Waiting.{count_lines}
use Rattle.wu_views.specs.declared.waiting.StatusLine.{StatusLine}
use Rattle.wu_views.specs.declared.waiting.StatusLine.TheVariants.{Host}
use Rattle.wu_views.proofs.waiting.status_lines.Goals as goal

pub returns-in_err-decisions : goal.returns-in_err-decisions
returns-in_err-decisions g c = record { reads = reads_then_handed g.S.Store _ _ _ _ c.in_ok-due.ensures.reads c.from_residual-in_err-decisions.result c.in_err-decisions.field-0.0 c.from_residual-in_err-decisions.ensures.1 (reads_over (λ db world stood. (stood.0, stood.1.refines)) c.in_err-decisions.ensures.reads) (λ other told world. tt) (λ world stood one can. can) }

pub returns-in_err-deadlines : goal.returns-in_err-deadlines
returns-in_err-deadlines g c = record {
  reads = let two = reads_both g.S.Store _ _ _ _ c.in_ok-due.ensures.reads _ (reads_over (λ db world stood. (stood.0, stood.1.refines)) c.in_ok-decisions.ensures.reads) in
      reads_then_handed g.S.Store _ _ _ _ two c.from_residual-in_err-deadlines.result c.in_err-deadlines.field-0.0 c.from_residual-in_err-deadlines.ensures.1 (reads_over (λ db world stood. (stood.0, stood.1.refines)) c.in_err-deadlines.ensures.reads) (λ other told world. tt) (λ world stood one can. can);
}

pub returns-in_err-hosts : goal.returns-in_err-hosts
returns-in_err-hosts g c = record {
  reads = let two = reads_both g.S.Store _ _ _ _ c.in_ok-due.ensures.reads _ (reads_over (λ db world stood. (stood.0, stood.1.refines)) c.in_ok-decisions.ensures.reads) in
      let three = reads_both g.S.Store _ _ _ _ two _ (reads_over (λ db world stood. (stood.0, stood.1.refines)) c.in_ok-deadlines.ensures.reads) in
      reads_then_handed g.S.Store _ _ _ _ three c.from_residual-in_err-hosts.result c.in_err-hosts.field-0.0 c.from_residual-in_err-hosts.ensures.1 (reads_over (λ db world stood. (stood.0, stood.1.refines)) c.in_err-hosts.ensures.reads) (λ other told world. tt) (λ world stood one can. can);
}

-- a want of memory is no refusal
unrefused : {U : Type 0} (r : Result U Fault) → IfErr r (λ fault. fault ≡ Memory) → IfErr r (λ fault. fault ≢ NotAProject)
unrefused (Ok x) memory = tt
unrefused (Err fault) memory = λ is. absurd (let other = sym memory ∙ is in cc)

pub returns : goal.returns
returns g c = record {
  reads = let two = reads_both g.S.Store _ _ _ _ c.in_ok-due.ensures.reads _ (reads_over (λ db world stood. (stood.0, stood.1.refines)) c.in_ok-decisions.ensures.reads) in
      let three = reads_both g.S.Store _ _ _ _ two _ (reads_over (λ db world stood. (stood.0, stood.1.refines)) c.in_ok-deadlines.ensures.reads) in
      let four = reads_both g.S.Store _ _ _ _ three _ (reads_over (λ db world stood. (stood.0, stood.1.refines)) c.in_ok-hosts.ensures.reads) in
      let r = c.with_counts.result in
      let told : IfErr r IsReadFault = search rules in
      reads_also g.S.Store _ _ c.in_ok-hosts.hosts r (never_broken r told) (fault_read r told) four
      (λ world stood found. subst (λ (lines : List StatusLine). IfOk r (λ all. all.items ≡ lines)) (λ j. found.0.0.0 j ++ count_lines (found.0.0.1 j) (found.0.1 j) ++ map Host (found.1 j)) c.with_counts.ensures.ok)
      (λ world stood found can. unrefused r c.with_counts.ensures.fault);
}
